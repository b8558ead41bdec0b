-- Mappings: which lists of them specs make of refs, and which are kept.
pub mod Lists
pub mod Mappings
pub mod Hits
pub mod Missing
pub mod Redundant
pub mod Single
