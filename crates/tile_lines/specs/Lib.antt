pub mod Near
pub mod Tile
