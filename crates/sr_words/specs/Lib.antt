pub mod Base
pub mod Clap
pub mod Options
pub mod Resends
pub mod Lives
pub mod Words
pub mod Errors
