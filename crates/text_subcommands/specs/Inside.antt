-- What this crate alone knows of: no public contract cites it.
pub mod Parts
pub mod Unread
pub mod Untimed
