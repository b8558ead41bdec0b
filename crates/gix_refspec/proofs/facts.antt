-- Examples of the definitions in specs/, of this crate and of those below it, each on one side of a border, so that
-- a wrong definition is noticed.
pub mod ValidationFacts
pub mod PlanLawFacts
pub mod RefNameFacts
pub mod AskedFacts
pub mod LawFacts
pub mod ItemFacts
pub mod KeptFacts
pub mod GroupFacts
