-- The laws of the definitions, each file over one of them.
pub mod Clock
pub mod Signed
pub mod Middle
pub mod Heard
pub mod Closed
pub mod Letter
pub mod Stamp
pub mod Forward
pub mod Coded
