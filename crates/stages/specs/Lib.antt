pub mod Fit
pub mod Cases
