mod Common
pub mod facts
pub mod lemmas
pub mod readers
