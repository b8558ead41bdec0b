-- The laws of fates, which follow from the other definitions.
pub mod Why
