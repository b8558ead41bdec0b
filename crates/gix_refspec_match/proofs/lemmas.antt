-- What proofs share, by subject.
pub mod lists
pub mod duplicates
pub mod hits
pub mod index
pub mod keep
