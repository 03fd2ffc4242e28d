-- What this crate alone knows of: no public contract cites it.
pub mod Editing
pub mod Dispatching
pub mod Refused
