pub mod Found
pub mod Finding
pub mod Promises
pub mod Cases
