pub mod Row
pub mod Progress
pub mod Promises
pub mod Cases
