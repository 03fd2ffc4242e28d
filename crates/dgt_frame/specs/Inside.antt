-- What this crate alone knows of: no public contract cites it.
pub mod Groups
pub mod Steps
pub mod Stored
pub mod Whole
