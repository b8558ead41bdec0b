-- Examples of the definitions in specs/, of this crate and of those below it, each on one side of a border.
pub mod MatchFacts
pub mod MissingFacts
pub mod HitFacts
pub mod CandidateFacts
pub mod ListsFacts
pub mod CopyFacts
pub mod OrderFacts
pub mod SingleFacts
pub mod RedundantFacts
