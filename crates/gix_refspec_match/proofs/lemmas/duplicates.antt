-- Lemmas on elements that equal earlier ones.
pub mod HashKeyLemmas
pub mod FlagLemmas
pub mod OrderedLemmas
pub mod RedundantLemmas
