-- The laws of the definitions, each file over one of them.
pub mod Links
pub mod Ordinary
pub mod Bits
pub mod Delays
pub mod Row
