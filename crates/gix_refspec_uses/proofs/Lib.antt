pub mod ClaimLemmas
pub mod AskingLemmas
pub mod WrittenFacts
