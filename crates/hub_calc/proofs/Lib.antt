pub mod Names
pub mod Counting
pub mod Runs
pub mod Sums
pub mod Asking
