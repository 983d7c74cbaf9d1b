-- The laws of the definitions, each file over one of them.
pub mod Word
pub mod Table
pub mod Digits
pub mod Pairs
