-- The laws of the definitions, each file over one of them.
pub mod Events
pub mod Run
pub mod Places
pub mod Senders
pub mod State
pub mod Calls
pub mod Late
pub mod Cut
pub mod Due
pub mod InTime
