pub mod Words
pub mod Lines
pub mod Times
pub mod Fitting
pub mod Listing
pub mod Laws
pub mod Inside
