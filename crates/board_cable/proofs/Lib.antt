mod Updates
mod InVain
mod Requests
mod LineLemmas
mod Silences
pub mod Once
mod Fives
mod Shown
mod Kept
mod Lost
mod Aside
mod Owned
mod Numberless
mod Closed
mod Others
mod Early
mod BackLemmas
