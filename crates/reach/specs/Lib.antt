pub mod Span
pub mod Search
pub mod Survey
pub mod Answers
pub mod Promises
pub mod Cases
pub mod Witness
