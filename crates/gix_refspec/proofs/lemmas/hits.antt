pub mod TransposeLemmas
pub mod GatherLemmas
