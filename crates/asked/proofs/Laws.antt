-- The laws of what is asked: what steps tell, and what comes of it from step to step.
pub mod Told
pub mod Onward
pub mod Lines
pub mod Range
pub mod Wide
