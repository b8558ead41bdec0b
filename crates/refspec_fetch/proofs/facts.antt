-- Examples and counterexamples of the definitions in specs/, so that a wrong definition is noticed.
pub mod AnswerFacts
pub mod ConflictFacts
pub mod ContestFacts
pub mod FetchFacts
pub mod GroupFacts
pub mod LeftOutFacts
pub mod MissingFacts
pub mod OriginFacts
pub mod ReportFacts
pub mod StaleFacts
pub mod TextsFacts
pub mod UpdateFacts
