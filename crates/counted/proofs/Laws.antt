-- The laws of the definitions, each file over one of them.
pub mod Close
pub mod Counts
pub mod Run
