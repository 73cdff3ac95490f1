pub mod Meanings
pub mod Controls
pub mod Errors
