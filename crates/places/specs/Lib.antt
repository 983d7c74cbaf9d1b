pub mod Seams
pub mod Marks
pub mod Links
pub mod Promises
pub mod Cases
