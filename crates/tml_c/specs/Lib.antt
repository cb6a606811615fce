pub mod Words
pub mod Given
pub mod Answers
pub mod View
