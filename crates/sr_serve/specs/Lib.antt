pub mod Sides
pub mod Serving
pub mod Wires
