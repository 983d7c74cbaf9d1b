-- The laws of the definitions, each file over one of them.
pub mod State
pub mod Held
pub mod Run
pub mod Whole
pub mod Any
