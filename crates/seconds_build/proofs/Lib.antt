pub mod Texts
pub mod Nets
pub mod EveryTime
