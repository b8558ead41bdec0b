-- The definitions that only private functions use, for their steps.
pub mod Searches
