-- Rust values as plain data, for contracts.
pub mod Plan
pub mod Stale
