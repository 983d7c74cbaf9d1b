pub mod Seam
pub mod Promises
pub mod Cases
