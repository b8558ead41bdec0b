-- The words of functions that callers of the library can't reach, for their steps.
pub mod Needles
pub mod EqualSpecs
pub mod Matchers
pub mod Hits
pub mod Fills
pub mod Part
pub mod Index
pub mod Kept
pub mod Filter
pub mod Bloom
pub mod Duplicates
pub mod Orders
