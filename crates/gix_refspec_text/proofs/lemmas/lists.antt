-- Lemmas on lists, options, numbers and Booleans in general.
pub mod AllLemmas
pub mod EmptyLemmas
pub mod EqualLemmas
pub mod LacksLemmas
pub mod MapLemmas
pub mod NumberLemmas
pub mod OrderLemmas
