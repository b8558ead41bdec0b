-- Lemmas that several proofs use, by subject.
pub mod PartsLemmas
pub mod WrittenLemmas
pub mod IndexLemmas
pub mod SidesLemmas
pub mod UpstreamLemmas
pub mod RemotesLemmas
pub mod RenameLemmas
pub mod LawLemmas
