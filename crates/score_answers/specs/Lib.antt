pub mod Counts
pub mod Reduce
pub mod Score
