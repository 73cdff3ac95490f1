pub mod Delivering
pub mod Sided
pub mod Served
pub mod Wired
