-- Examples of the definitions in specs/, each on one side of a border, so that a wrong definition is noticed.
pub mod LintFacts
pub mod ConfiguredFacts
pub mod RemovalFacts
pub mod NestFacts
