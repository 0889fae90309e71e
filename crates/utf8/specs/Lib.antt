pub mod Rfc3629
pub mod Fronts
pub mod Str
