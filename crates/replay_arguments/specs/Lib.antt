pub mod Command
pub mod TagOptions
pub mod Setups
pub mod Subcommands
pub mod Inside
