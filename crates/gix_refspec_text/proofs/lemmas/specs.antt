-- Lemmas on accepted readings, and on the canonical text.
pub mod AcceptedLemmas
pub mod DestinationLemmas
pub mod SpecLemmas
pub mod FormsBackLemmas
