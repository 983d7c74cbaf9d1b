pub mod State
pub mod Reading
pub mod Program
pub mod Promises
pub mod Cases
