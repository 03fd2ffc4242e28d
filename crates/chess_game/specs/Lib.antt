pub mod TagNames
pub mod Values
pub mod TagFields
pub mod Games
pub mod GameFields
