-- Definitions for functions that callers of `gix_refspec` can't reach.
pub mod Scan
pub mod Pieces
pub mod SideViews
pub mod Sides
pub mod Words
pub mod Spans
