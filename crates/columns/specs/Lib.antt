pub mod Columns
pub mod Marks
pub mod Wrote
pub mod Cases
-- the code's own
pub mod Window
pub mod Plain
