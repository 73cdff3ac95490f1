pub mod Joins
pub mod RegistryLemmas
