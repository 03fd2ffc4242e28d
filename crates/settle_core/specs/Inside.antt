-- What this crate alone knows of: no public contract cites it.
pub mod Kept
pub mod Reading
pub mod Signs
