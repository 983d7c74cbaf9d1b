pub mod Laws
pub mod Witness
pub mod Contract
pub mod Promises
