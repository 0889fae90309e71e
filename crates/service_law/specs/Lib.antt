pub mod Along
pub mod Calls
pub mod Marks
pub mod Law
