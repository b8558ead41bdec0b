-- The reading of a text, the reasons to refuse it, and the meaning of a spec.
pub mod Reading
pub mod Grammar
pub mod Refusal
pub mod Span
pub mod Explained
pub mod Meaning
pub mod Order
