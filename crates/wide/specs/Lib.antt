pub mod Wide
pub mod Promises
pub mod Cases
