pub mod Payloads
pub mod Decoded
