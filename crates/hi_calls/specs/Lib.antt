pub mod Numbering
pub mod Maps
pub mod Legal
pub mod Stands
pub mod Calls
pub mod Laws
pub mod Words
