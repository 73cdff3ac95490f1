pub mod Counts
pub mod IndexLemmas
pub mod ListLemmas
pub mod MapLemmas
