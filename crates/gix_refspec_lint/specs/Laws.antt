-- The laws of what is found, which follow from the other definitions.
pub mod Lint
