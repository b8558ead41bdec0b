-- Texts of bytes: names, patterns and ids.
pub mod Bytes
pub mod Words
pub mod Name
pub mod PatternError
pub mod ObjectId
