pub mod Addresses
pub mod Stands
pub mod Calls
