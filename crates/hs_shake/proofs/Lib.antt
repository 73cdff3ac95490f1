pub mod Lookups
pub mod Meanings
pub mod Texts
