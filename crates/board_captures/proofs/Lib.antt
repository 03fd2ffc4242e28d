pub mod ReadLemmas
pub mod ShownLemmas
