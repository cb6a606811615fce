pub mod Parts
pub mod DateLaws
pub mod EdgeLaws
pub mod StateLaws
pub mod GraphLaws
pub mod SearchLaws
