-- Lemmas on bytes, names, patterns and ids.
pub mod TextLemmas
pub mod ComponentLemmas
pub mod NameLemmas
pub mod LetterLemmas
pub mod WrongLemmas
pub mod CalmLemmas
pub mod TestedLemmas
pub mod ObjectIdLemmas
pub mod HeadLemmas
