-- Examples of the definitions in specs/, each on one side of a border, so that a wrong definition is noticed.
pub mod ExampleLemmas
pub mod PlanFacts
pub mod WholePlanFacts
pub mod FetchFacts
pub mod StaleFacts
pub mod DefaultFacts
