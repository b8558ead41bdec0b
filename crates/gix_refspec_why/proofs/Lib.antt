mod Common
pub mod facts
pub mod lemmas
