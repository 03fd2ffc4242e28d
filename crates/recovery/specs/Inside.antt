-- What this crate alone knows of: no public contract cites it.
pub mod Keeping
pub mod Passing
pub mod Progress
pub mod Seeing
pub mod Status
