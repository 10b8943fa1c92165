pub mod Operations
pub mod Faults
