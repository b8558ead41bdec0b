-- Rust values as plain data, for contracts.
pub use Rattle.gix_refspec_text.specs.Views.Instruction
pub use Rattle.gix_refspec_text.specs.Views.Spec
pub use Rattle.gix_refspec_text.specs.Views.Errors
pub use Rattle.gix_refspec_match.specs.Views.Mapping
pub mod Group
pub mod Issue
pub use Rattle.gix_refspec_match.specs.Views.Hashed
