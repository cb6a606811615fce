pub mod Edges
pub mod Leaving
pub mod Relaxation
pub mod Rounds
pub mod Decided
