pub mod Due
pub mod Meaning
pub mod Throughout
mod SetUps
mod Alarms
