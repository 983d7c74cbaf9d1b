-- The laws of the definitions, each file over one of them.
pub mod Part
pub mod Steps
pub mod Limits
pub mod Rows
pub mod Numbers
pub mod Seams
pub mod Calls
pub mod Takes
pub mod Left
pub mod Stands
pub mod Width
