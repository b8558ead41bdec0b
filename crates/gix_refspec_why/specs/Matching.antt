-- What each spec does with one ref.
pub mod Why
