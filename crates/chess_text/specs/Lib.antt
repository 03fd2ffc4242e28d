pub mod Fen
pub mod Inside
pub mod KeptRanks
pub mod Laws
pub mod Placement
pub mod San
pub mod Squares
pub mod Start
