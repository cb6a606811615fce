pub mod Cells
pub mod Tables
pub mod Counting
pub mod Timelines
pub mod Chosen
pub mod Between
pub mod Bits
pub mod Planes
