-- The laws of the definitions, each file over one of them.
pub mod Wave
pub mod State
pub mod Ends
pub mod Extremes
pub mod Ring
pub mod Words
pub mod Window
