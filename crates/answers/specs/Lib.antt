pub mod Commands
pub mod Documents
pub mod Judged
pub mod Lines
pub mod Names
