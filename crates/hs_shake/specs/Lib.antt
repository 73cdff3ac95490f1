pub mod Objects
pub mod Requests
pub mod Responses
pub mod Refusals
pub mod Words
pub mod Laws
