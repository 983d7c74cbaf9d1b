-- The laws of the definitions, each file over one of them.
pub mod Columns
pub mod Lists
pub mod Wrote
pub mod Window
pub mod Plain
