pub mod Reading
pub mod Pieces
pub mod Keeping
pub mod Telling
pub mod Asked
pub mod Noted
pub mod Learned
pub mod Answered
