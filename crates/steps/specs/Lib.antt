pub mod Step
pub mod Shown
pub mod Number
pub mod Take
pub mod Answer
pub mod Promises
pub mod Cases
