-- The definitions of steps: for private functions, and for those that are public for `gix_refspec_diff` alone.
pub mod Alike
pub mod Borders
pub mod Overlaps
pub mod Lints
pub mod Idles
pub mod Nestings
pub mod Runs
pub mod Removals
