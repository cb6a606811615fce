pub mod Alike
pub mod Commands
pub mod Forms
pub mod TwoRuns
