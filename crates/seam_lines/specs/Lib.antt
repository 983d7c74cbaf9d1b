pub mod Seam
