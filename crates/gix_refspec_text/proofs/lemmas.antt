-- The lemmas that proofs share, by subject.
pub mod texts
pub mod parsing
pub mod specs
pub mod prefixes
pub mod lists
pub mod hits
