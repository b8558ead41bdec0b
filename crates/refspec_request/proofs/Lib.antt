pub mod ArgumentLemmas
mod BooleanLemmas
mod ChoiceLemmas
pub mod FetchLemmas
mod RefusalLemmas
mod RemoteLemmas
pub mod SettingLemmas
mod WordLemmas
pub mod KeyFacts
mod facts
