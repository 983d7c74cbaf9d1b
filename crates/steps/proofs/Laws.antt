-- The laws of the definitions, each file over one of them.
pub mod Taken
pub mod Answer
pub mod Fit
pub mod Handed
