pub mod Matching
pub mod Views
pub mod Laws
pub mod Private
