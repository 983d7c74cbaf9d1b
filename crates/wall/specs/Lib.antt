pub mod Operation
pub mod Promises
