pub mod Lengths
pub mod Built
