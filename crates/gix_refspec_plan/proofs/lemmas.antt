-- Lemmas that several proofs use, by subject.
pub mod plan
pub mod stale
