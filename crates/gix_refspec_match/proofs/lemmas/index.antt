-- Lemmas on looking names and patterns up.
pub mod IndexLemmas
pub mod FirstPlacesLemmas
pub mod PartialLemmas
pub mod PlacedLemmas
