-- The definitions of steps, for private functions.
pub mod Attempts
pub mod Rivals
