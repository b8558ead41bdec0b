-- Lemmas on what specs take of items, and on the mappings that this makes.
pub mod HitLemmas
pub mod GroupLemmas
pub mod MatcherLemmas
pub mod ReachLemmas
pub mod SingleLemmas
