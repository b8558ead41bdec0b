-- Lemmas on what two lists of values do otherwise.
pub mod SoughtLemmas
pub mod BlockerLemmas
pub mod LiftLemmas
pub mod ListLemmas
pub mod KnownLemmas
pub mod LostLemmas
pub mod ExampleLemmas
pub mod SearchLemmas
pub mod SharedLemmas
pub mod AlikeLemmas
pub mod LackLemmas
pub mod TrackedLemmas
pub mod MergeLemmas
