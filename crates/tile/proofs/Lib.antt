pub mod Laws
pub mod Range
pub mod Cases
pub mod Promises
