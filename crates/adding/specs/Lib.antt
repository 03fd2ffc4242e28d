pub mod Signs
pub mod Making
pub mod Stays
pub mod Verdicts
pub mod Inside
pub mod Answers
pub mod Lines
