mod facts
pub mod AdviceLemmas
pub mod EachLemmas
pub mod FateLemmas
pub mod LocalLemmas
pub mod RemoteLemmas
pub mod UpstreamLemmas
pub mod CanonLemmas
pub mod PrefixLemmas
pub mod TrackLemmas
pub mod RowsLemmas
pub mod AnswerLemmas
pub mod SeenLemmas
pub mod WarnedLemmas
pub mod KeyLemmas
pub mod OutputLemmas
