pub mod PairMadeLemmas
pub mod NameOnlyLemmas
pub mod AlikeLemmas
pub mod FilterLemmas
