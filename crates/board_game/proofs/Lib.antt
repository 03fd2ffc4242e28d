mod AlarmLemmas
mod EndLemmas
pub mod HearLemmas
pub mod ItemLemmas
pub mod OnceLemmas
pub mod PlainLemmas
pub mod PlyLemmas
pub mod SeeLemmas
pub mod ShownLemmas
pub mod SilenceLemmas
mod Stopped
pub mod TakeLemmas
pub mod WithinLemmas
