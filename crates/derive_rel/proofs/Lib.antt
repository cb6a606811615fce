pub mod OneWay
pub mod WordBits
pub mod Masks
pub mod Joined
pub mod Turns
pub mod OneList
pub mod AllThere
