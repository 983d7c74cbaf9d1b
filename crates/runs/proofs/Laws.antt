-- The laws of the definitions, each file over one of them.
pub mod Pulse
pub mod Run
pub mod Reach
pub mod Program
pub mod Growth
pub mod Shift
