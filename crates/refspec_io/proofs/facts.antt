-- Examples and counterexamples of the definitions in specs/, so that a wrong definition is noticed.
pub mod CountFacts
pub mod FaultFacts
pub mod GivenFacts
pub mod InputFacts
pub mod JsonFacts
pub mod LackingFacts
pub mod MalformedFacts
pub mod MessageFacts
pub mod ReadFacts
pub mod RefFacts
pub mod RowFacts
pub mod SettingFacts
pub mod ShownFacts
pub mod TextFacts
pub mod WrongFacts
