pub use Rattle.gix_refspec_text.specs.Texts
pub use Rattle.gix_refspec_text.specs.Specs
pub mod Matching
pub mod Views
pub mod Laws
pub mod Private
