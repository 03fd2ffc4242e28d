pub mod Inside
pub mod Invented
pub mod Keeping
pub mod Laws
pub mod Streams
pub mod Weaving
pub mod Woven
