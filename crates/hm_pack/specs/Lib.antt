pub mod Words
pub mod Refusals
pub mod Places
pub mod Elements
pub mod Says
pub mod Frame
pub mod ExactlyOne
pub mod Laws
