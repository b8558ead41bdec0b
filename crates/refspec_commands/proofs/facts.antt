-- Examples and counterexamples of the definitions in specs/, so that a wrong definition is noticed.
pub mod AdviceFacts
pub mod AskedFacts
pub mod CanonFacts
pub mod FateFacts
pub mod LocalFacts
pub mod OutputFacts
pub mod PrefixFacts
pub mod RemoteFacts
pub mod RowFacts
pub mod RunFacts
pub mod TrackFacts
pub mod UpstreamFacts
pub mod WarnedFacts
pub mod WarningFacts
