pub mod Lines
pub mod Numbers
pub mod Words
pub mod Reading
pub mod Grammar
pub mod Begun
pub mod Parts
pub mod Given
