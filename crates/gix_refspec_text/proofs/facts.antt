-- Examples of the definitions in specs/, on both sides of each boundary, so that a wrong definition is noticed.
pub mod ManualFacts
pub mod NameFacts
pub mod ObjectIdFacts
pub mod FitFacts
pub mod RefusalFacts
pub mod GrammarFacts
pub mod UnreadFacts
pub mod ReasonFacts
pub mod FaultFacts
pub mod SpanFacts
pub mod MeaningFacts
pub mod SideFacts
pub mod CoveringFacts
pub mod PrefixFacts
pub mod ViewFacts
