pub mod File
pub mod Read
pub mod Promises
pub mod Cases
pub mod Witness
