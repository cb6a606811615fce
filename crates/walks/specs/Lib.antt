pub mod Dates
pub mod Edges
pub mod States
pub mod Graphs
pub mod Search
