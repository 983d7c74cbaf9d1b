-- The laws of the definitions, each file over one of them.
pub mod Words
pub mod Call
pub mod Needed
