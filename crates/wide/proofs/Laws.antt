-- The laws of the definitions, each file over one of them.
pub mod Seam
pub mod First
