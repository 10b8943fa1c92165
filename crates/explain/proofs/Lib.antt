pub mod Lengths
pub mod FedLines
