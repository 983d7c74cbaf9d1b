pub mod Refusal
pub mod Rounding
pub mod Settings
pub mod Cases
pub mod Promises
pub mod Limits
