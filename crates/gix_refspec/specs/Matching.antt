-- What specs match and map, their ref prefixes, and which mappings can be written.
pub use Rattle.gix_refspec_text.specs.Matching.Side
pub use Rattle.gix_refspec_text.specs.Matching.Match
pub use Rattle.gix_refspec_text.specs.Matching.Prefix
pub mod Asked
pub use Rattle.gix_refspec_match.specs.Matching.Lists
pub use Rattle.gix_refspec_match.specs.Matching.Mappings
pub use Rattle.gix_refspec_match.specs.Matching.Hits
pub use Rattle.gix_refspec_match.specs.Matching.Missing
pub use Rattle.gix_refspec_match.specs.Matching.Single
pub mod Validation
pub mod RefNames
