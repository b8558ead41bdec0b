-- The definitions of steps: for private functions, and for those that are public for the linter alone.
pub mod Plans
pub mod Directories
pub mod Verdicts
pub mod Stales
