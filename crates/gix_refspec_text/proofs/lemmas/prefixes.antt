-- Lemmas on ref prefixes.
pub mod PrefixLemmas
pub mod OnePrefixLemmas
