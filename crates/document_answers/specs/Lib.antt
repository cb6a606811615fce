pub mod Canon
pub mod Check
pub mod Dates
pub mod Spans
