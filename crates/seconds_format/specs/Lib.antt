pub mod Texts
pub mod Begun
pub mod Parts
pub mod Words
pub mod Forms
pub mod Readers
pub mod Written
