pub mod Spelling
pub mod Readings
pub mod Wires
pub mod Laws
pub mod Faults
pub mod Gives
pub mod Controls
pub mod Words
