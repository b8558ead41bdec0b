pub mod ArgumentFacts
pub mod BooleanFacts
pub mod NeededFacts
pub mod SettingFacts
pub mod RemoteFacts
pub mod WordFacts
