pub mod Pairs
pub mod Tallies
