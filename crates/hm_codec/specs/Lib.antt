pub mod Words
pub mod Refusals
pub mod Frames
pub mod Laws
