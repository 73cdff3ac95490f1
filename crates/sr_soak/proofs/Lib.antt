pub mod InTurn
pub mod Stepping
pub mod Numbers
mod Counting
mod Numbered
mod Uploads
mod Settled
pub mod Turning
pub mod Begun
pub mod Soaked
