pub mod Kinds
pub mod First
