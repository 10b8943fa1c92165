pub mod Faults
pub mod Fields
pub mod Words
pub mod Readings
pub mod Calls
pub mod Boards
