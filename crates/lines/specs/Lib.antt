pub mod Refusals
pub mod Format
pub mod Decoding
pub mod Meaning
pub mod Laws
pub mod Examples
