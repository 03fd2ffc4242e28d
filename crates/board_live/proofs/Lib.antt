pub mod Alike
pub mod Answered
pub mod Dues
pub mod Ends
pub mod Fed
pub mod Filed
pub mod History
pub mod Later
pub mod Lines
pub mod Numbered
pub mod Owned
pub mod Saids
pub mod Says
pub mod Sides
pub mod Silent
pub mod TakeLemmas
mod Told
