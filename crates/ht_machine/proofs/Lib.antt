pub mod Dealt
pub mod Once
