-- What specs do together, whatever refs a remote has.
pub mod Lint
pub mod Removal
