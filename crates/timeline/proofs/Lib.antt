pub mod Turns
pub mod Words
pub mod Raised
pub mod Whole
