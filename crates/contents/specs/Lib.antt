pub mod Contents
pub mod Cases
