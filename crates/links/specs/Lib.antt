pub mod Links
pub mod Cases
-- the code's own
pub mod Delays
