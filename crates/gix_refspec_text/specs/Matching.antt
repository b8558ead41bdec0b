-- Which refs a side matches and takes, and the ref prefixes of a spec.
pub mod Side
pub mod Match
pub mod Prefix
