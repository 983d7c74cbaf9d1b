-- The laws of the definitions, each file over one of them.
pub mod Number
pub mod All
pub mod Line
