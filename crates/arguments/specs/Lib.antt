pub mod Words
pub mod Call
pub mod Cases
pub mod Promises
