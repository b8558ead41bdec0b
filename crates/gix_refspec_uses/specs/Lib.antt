pub mod Claims
pub mod Planned
pub mod Tracking
pub mod Asking
