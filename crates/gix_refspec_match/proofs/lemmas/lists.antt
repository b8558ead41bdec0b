-- Lemmas on lists that are made from lists.
pub mod ListsLemmas
pub mod JoinLemmas
pub mod SomeLemmas
