-- Lemmas on the refs that sides match and take.
pub mod CandidateLemmas
pub mod MatchLemmas
