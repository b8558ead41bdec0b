pub mod UpdateLemmas
pub mod FirstLemmas
pub mod ConflictLemmas
pub mod OneValidationLemmas
pub mod AfterLemmas
pub mod ClearLemmas
pub mod RefNameLemmas
