pub mod Settings
pub mod Terms
pub mod Words
pub mod Laws
