pub mod Reporting
pub mod Told
