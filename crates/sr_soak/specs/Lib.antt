pub mod Recipe
pub mod Counts
pub mod Soaks
pub mod Steps
pub mod Plays
