mod GapLaws
pub mod MaskLemmas
mod NamingPlies
mod OnceLemmas
mod Opening
mod PlyLemmas
mod TakeLemmas
mod Suspecting
mod Suspicion
