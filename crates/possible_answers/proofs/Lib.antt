pub mod Texts
pub mod Lines
pub mod Tests
pub mod MatrixAnswered
pub mod PossibleAnswered
