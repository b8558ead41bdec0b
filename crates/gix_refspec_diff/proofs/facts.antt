-- Examples of the definitions in specs/, each on one side of a border, so that a wrong definition is noticed.
pub mod DifferenceFacts
