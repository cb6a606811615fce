pub mod Laws
pub mod Seconds
