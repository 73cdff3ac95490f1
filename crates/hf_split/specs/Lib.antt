pub mod Cuts
pub mod Held
pub mod Laws
pub mod Marks
pub mod Nexts
pub mod VarInts
pub mod Words
