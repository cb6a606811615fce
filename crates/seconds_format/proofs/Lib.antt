pub mod PairLaws
pub mod SecondLaws
pub mod FormLaws
pub mod BodyLaws
pub mod LineLaws
pub mod Reading
pub mod Writing
pub mod PartLaws
