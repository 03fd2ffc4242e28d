-- What this crate alone knows of: no public contract cites it.
pub mod Aim
pub mod FieldReading
pub mod PlacementReading
pub mod Rivals
