-- Rust values as the plain data that contracts see.
pub mod Instruction
pub mod Spec
pub mod Errors
