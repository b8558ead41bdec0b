pub mod Matching
pub mod Views
pub mod Private
