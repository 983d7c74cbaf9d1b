pub mod Pulse
pub mod Tiles
pub mod Cases
-- the code's own
pub mod Pulsed
pub mod Stampable
pub mod Arranged
pub mod Plain
