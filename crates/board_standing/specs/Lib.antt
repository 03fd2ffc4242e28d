pub mod Alarms
pub mod Hints
pub mod Keeping
pub mod Laws
pub mod Line
pub mod Meaning
pub mod Pictures
pub mod States
