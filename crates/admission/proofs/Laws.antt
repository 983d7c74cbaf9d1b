-- The laws of the definitions, each file over one of them.
pub mod Quiet
pub mod Lengths
pub mod Accepted
pub mod Hears
pub mod Limits
