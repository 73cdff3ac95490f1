pub mod Collected
pub mod Puts
pub mod Images
pub mod Shallow
pub mod Numbering
