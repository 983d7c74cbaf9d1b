-- The laws of the definitions, each file over one of them.
pub mod Cases
pub mod Refusal
pub mod AnyBelow
pub mod Rounding
pub mod Settings
