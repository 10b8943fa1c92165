pub mod Arcs
pub mod Nexts
pub mod Linking
pub mod Unlinking
pub mod Replacing
pub mod Counting
pub mod Walks
pub mod Laws
