-- Lemmas that several proofs use, by subject.
pub mod MadeLemmas
pub mod specs
pub mod prefixes
pub mod hits
pub mod keep
pub mod validate
