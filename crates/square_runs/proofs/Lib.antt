pub mod Due
pub mod Moments
pub mod Squares
pub mod Walking
