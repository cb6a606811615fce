pub mod Either
pub mod Words
