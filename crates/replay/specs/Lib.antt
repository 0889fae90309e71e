pub mod Terms
pub mod Hash
