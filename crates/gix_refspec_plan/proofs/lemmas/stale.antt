pub mod ZipLemmas
pub mod FetchedLemmas
pub mod SourceLemmas
pub mod PatternLemmas
pub mod StateLemmas
