pub mod Tile
pub mod Cases
pub mod Promises
