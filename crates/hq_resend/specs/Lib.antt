pub mod Buffers
pub mod ResendEvents
pub mod Laws
pub mod Lending
pub mod Numbering
pub mod Rings
pub mod Words
