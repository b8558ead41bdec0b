pub mod AskedLemmas
pub mod CoverLemmas
pub mod RequestLemmas
pub mod NeededLemmas
