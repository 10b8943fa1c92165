pub mod Scans
pub mod Clearing
pub mod Keeping
pub mod Turning
pub mod TurnKeeping
pub mod Playing
