-- What a fetch writes, and which local refs are stale.
pub mod Plan
pub mod Stale
