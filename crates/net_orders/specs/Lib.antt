pub mod Dates
pub mod Orders
pub mod Raising
pub mod Sequence
pub mod Steps
pub mod Milestones
