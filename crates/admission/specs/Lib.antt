pub mod Call
pub mod Refusal
pub mod Cases
-- the code's own
pub mod Together
pub mod Limits
