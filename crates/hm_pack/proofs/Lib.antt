pub mod FromPlace
pub mod Depths
pub mod Faults
pub mod Frames
pub mod Again
pub mod Written
