-- What this crate alone knows of: no public contract cites it.
pub mod Beginning
pub mod Explaining
pub mod Telling
pub mod Waiting
