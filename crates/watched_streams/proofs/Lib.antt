pub mod InputLemmas
pub mod OutputLemmas
pub mod PutLemmas
pub mod ResultLemmas
