-- The laws of the definitions, each file over one of them.
pub mod Fit
pub mod Replaced
pub mod Stepping
