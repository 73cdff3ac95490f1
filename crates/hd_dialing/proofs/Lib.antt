pub mod Steps
pub mod Counts
pub mod Losses
pub mod Telling
pub mod Dialers
pub mod TwoConnections
