pub mod Confirmed
pub mod Refusals
pub mod Following
