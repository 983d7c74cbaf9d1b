pub mod Number
pub mod Line
pub mod Row
pub mod Promises
