pub mod Registry
pub mod RegistryExamples
pub mod RegistryLaws
pub mod Kept
pub mod KeptLaws
pub mod Rooms
pub mod RoomsLaws
