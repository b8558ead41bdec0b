-- Lemmas on which mappings are kept.
pub mod KeptLemmas
pub mod RepeatLemmas
pub mod ExclusionLemmas
pub mod KeptPairLemmas
pub mod PartLemmas
pub mod EngineLemmas
