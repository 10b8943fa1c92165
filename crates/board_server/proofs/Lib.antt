pub mod LentTables
pub mod Sounding
pub mod Lengths
pub mod FedBytes
pub mod LinePlaces
