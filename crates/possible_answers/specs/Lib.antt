pub mod Matrix
pub mod Possible
pub mod SetTexts
