pub mod Laws
pub mod Contract
pub mod Promises
pub mod Cases
