pub mod Asked
pub mod Whole
pub mod Promises
