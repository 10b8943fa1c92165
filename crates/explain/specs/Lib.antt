pub mod Explained
pub mod Reports
pub mod Tallies
