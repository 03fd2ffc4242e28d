pub mod Inside
pub mod Laws
pub mod Lines
pub mod Movetext
pub mod Pgn
pub mod Written
