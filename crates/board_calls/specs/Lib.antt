pub mod Words
pub mod Answers
pub mod Promises
pub mod Cases
