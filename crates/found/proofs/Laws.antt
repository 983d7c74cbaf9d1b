-- The laws of the definitions, each file over one of them.
pub mod First
pub mod Late
pub mod Finding
