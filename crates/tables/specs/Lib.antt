pub mod Lists
pub mod Items
pub mod Sessions
pub mod Records
pub mod Reads
