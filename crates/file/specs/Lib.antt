pub mod File
pub mod Limits
pub mod Promises
pub mod Program
pub mod Takes
pub mod Stands
pub mod Cases
pub mod Refusals
