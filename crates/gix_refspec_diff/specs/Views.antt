-- Rust values as plain data, for contracts.
pub mod Difference
