pub mod Bytes
pub mod Field
pub mod Limits
pub mod Cases
