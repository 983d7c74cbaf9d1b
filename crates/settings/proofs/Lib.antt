pub mod Laws
pub mod Cases
pub mod Promises
pub mod Limits
