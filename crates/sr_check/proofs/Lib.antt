pub mod Following
pub mod Pieces
pub mod Inputs
pub mod OneAnswer
pub mod SomeAnswer
