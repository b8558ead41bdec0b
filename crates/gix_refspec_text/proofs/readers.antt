-- Readers that compute on a text that is written out, each with a lemma that what it computes is so.
pub mod Texts
pub mod Readings
