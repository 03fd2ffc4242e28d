pub mod Candidates
pub mod HandsAtRest
pub mod HonestHands
pub mod Inside
pub mod Laws
pub mod Pairs
pub mod Recoverer
pub mod Recovering
