mod facts
pub mod ConflictLemmas
pub mod ClaimLemmas
pub mod ContestLemmas
pub mod GroupLemmas
pub mod AnswerLemmas
pub mod FetchLemmas
pub mod ReportLemmas
pub mod UpdateLemmas
pub mod VerdictLemmas
pub mod LeftOutLemmas
pub mod MissingLemmas
pub mod OriginLemmas
pub mod StaleLemmas
