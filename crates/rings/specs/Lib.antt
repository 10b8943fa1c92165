pub mod Between
pub mod Rings
pub mod Moves
pub mod RingLists
pub mod Laws
