-- Examples of the definitions, on each side of a limit.
pub mod FateFacts
pub mod MismatchFacts
