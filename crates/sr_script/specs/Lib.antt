pub mod Lines
pub mod Script
pub mod Asking
pub mod Turns
pub mod Reading
pub mod Laws
pub mod Words
