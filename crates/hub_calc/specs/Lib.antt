pub mod Refusals
pub mod Methods
pub mod Table
pub mod Jobs
pub mod Client
pub mod Laws
