pub mod Cases
pub mod Laws
pub mod Contract
pub mod Promises
