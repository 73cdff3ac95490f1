pub mod Routes
pub mod Bodies
pub mod Moments
pub mod Entries
pub mod Stands
pub mod Calls
pub mod Words
