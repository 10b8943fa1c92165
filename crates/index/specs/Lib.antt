pub mod Within
pub mod Seeking
pub mod Replays
