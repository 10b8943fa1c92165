pub mod Faults
pub mod Soundness
pub mod BoardIndexes
pub mod Answers
pub mod Served
pub mod Streams
