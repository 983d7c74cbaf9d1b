-- The laws of the definitions, each file over one of them.
pub mod Neighbours
pub mod Span
pub mod Search
pub mod Gap
pub mod Answers
pub mod Survey
pub mod Range
