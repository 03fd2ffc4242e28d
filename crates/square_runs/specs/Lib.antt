pub mod Keeping
pub mod Lasting
pub mod Laws
pub mod Shown
pub mod Squares
