pub mod Whole
pub mod Cutting
pub mod Ending
