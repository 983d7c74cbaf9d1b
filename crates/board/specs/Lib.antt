pub mod Stand
pub mod State
pub mod Closing
pub mod Events
pub mod Promises
pub mod Cases
