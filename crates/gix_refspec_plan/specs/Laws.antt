-- The laws of plans, which follow from the other definitions.
pub mod Fetches
