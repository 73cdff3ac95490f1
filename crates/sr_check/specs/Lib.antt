pub mod Words
pub mod Output
pub mod Stream
pub mod Going
pub mod Laws
