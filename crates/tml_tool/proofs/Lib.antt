pub mod Alike
pub mod Asked
pub mod Drilled
pub mod Tables
pub mod TwoRuns
