-- What this crate alone knows of: no public contract cites it.
pub mod Drawing
pub mod Followers
pub mod News
pub mod Plies
pub mod Positions
pub mod Printers
pub mod Progress
pub mod Watchers
