pub mod Ends
pub mod Changes
pub mod Walks
