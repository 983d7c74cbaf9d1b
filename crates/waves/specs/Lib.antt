pub mod Wave
pub mod Reading
pub mod State
pub mod Ends
pub mod Program
pub mod Promises
pub mod Cases
