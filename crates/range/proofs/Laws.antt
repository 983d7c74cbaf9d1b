-- The laws of the definitions, each file over one of them.
pub mod File
pub mod Whole
pub mod Read
pub mod Cut
pub mod Files
pub mod Unasked
