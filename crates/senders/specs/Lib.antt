pub mod Senders
pub mod Due
pub mod Cases
