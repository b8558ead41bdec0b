-- The laws of the library, which follow from the other definitions.
pub use Rattle.gix_refspec_text.specs.Laws.Readings
pub use Rattle.gix_refspec_text.specs.Laws.Order
pub use Rattle.gix_refspec_text.specs.Laws.Sides
pub use Rattle.gix_refspec_text.specs.Laws.Covering
pub mod Matching
pub mod Items
pub mod Indexes
pub mod Validation
pub mod Plans
pub mod Reasons
pub mod Names
