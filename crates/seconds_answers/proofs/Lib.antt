pub mod Whole
pub mod SecondsAnswered
pub mod SecondsConfirmed
pub mod Sizes
