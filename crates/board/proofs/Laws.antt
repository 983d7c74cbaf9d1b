-- The laws of the definitions, each file over one of them.
pub mod State
pub mod Pulse
pub mod Closing
