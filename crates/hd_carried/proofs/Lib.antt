pub mod Known
pub mod Turned
pub mod Coming
pub mod Wired
