pub mod Maps
pub mod Standing
