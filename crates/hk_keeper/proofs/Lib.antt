pub mod Texts
pub mod Users
pub mod Knowing
pub mod Lasts
