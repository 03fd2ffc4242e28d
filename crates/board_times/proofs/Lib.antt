pub mod TextLemmas
pub mod LineLemmas
mod ListingLemmas
pub mod EventLemmas
mod HeadingLemmas
