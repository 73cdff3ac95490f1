pub mod Unique
pub mod Prefixes
pub mod Counts
pub mod Writes
