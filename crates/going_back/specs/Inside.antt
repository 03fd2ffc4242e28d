-- What this crate alone knows of: no public contract cites it.
pub mod Changing
pub mod Fitting
pub mod Tellable
