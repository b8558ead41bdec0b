-- Lemmas on the reading of a text, and on the reasons to refuse it.
pub mod SideLemmas
pub mod PartsLemmas
pub mod ReasonLemmas
pub mod DecideLemmas
pub mod ReadsLemmas
pub mod ReadOnceLemmas
pub mod RefusalLemmas
pub mod SpanLemmas
