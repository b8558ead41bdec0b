mod ConflictLemmas
mod facts
