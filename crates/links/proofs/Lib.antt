pub mod Collecting
pub mod Sending
pub mod Cutting
pub mod Dividing
