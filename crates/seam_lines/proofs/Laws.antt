-- The laws of the definitions, each file over one of them.
pub mod Line
pub mod Neighbours
pub mod Runs
pub mod Room
