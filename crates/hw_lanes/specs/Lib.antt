pub mod Query
pub mod Replies
