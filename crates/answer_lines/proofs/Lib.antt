pub mod CutLemmas
mod SquareLemmas
pub mod WordLemmas
pub mod AnswerLemmas
mod DoneLemmas
pub mod EndLemmas
pub mod LookLemmas
