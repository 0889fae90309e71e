pub mod Entries
pub mod Counts
pub mod Printing
