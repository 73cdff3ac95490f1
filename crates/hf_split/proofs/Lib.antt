pub mod Beginnings
pub mod Digits
pub mod Finding
pub mod Places
pub mod Spellings
pub mod Streams
pub mod VarIntFronts
