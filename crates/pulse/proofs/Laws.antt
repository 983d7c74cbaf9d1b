-- The laws of the definitions, each file over one of them.
pub mod Arranged
pub mod Senders
pub mod Stamps
pub mod Stampable
pub mod Window
pub mod Plain
pub mod Tiles
