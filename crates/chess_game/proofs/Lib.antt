pub mod Plies
pub mod TagValues
