-- Lemmas that several proofs use, by subject.
pub mod AttemptLemmas
pub mod CandidateLemmas
pub mod FirstLemmas
pub mod GroupLemmas
pub mod LawLemmas
pub mod NameLemmas
pub mod RivalLemmas
pub mod SourceLemmas
pub mod TextLemmas
