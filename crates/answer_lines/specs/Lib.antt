pub mod Answers
pub mod Ends
pub mod Laws
pub mod Looks
