pub mod Items
pub mod Keeping
pub mod Laws
pub mod Meaning
pub mod Moves
pub mod Saying
pub mod Telling
