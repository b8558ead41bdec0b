-- How a clause sees a Rust value as plain data.
pub mod Mapping
pub mod Hashed
