-- What a change of the fetch values of a remote changes.
pub mod Difference
