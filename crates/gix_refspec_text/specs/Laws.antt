-- Laws of texts, readings, order, sides and ids, and which sources are covering.
pub mod Readings
pub mod Order
pub mod Sides
pub mod Covering
