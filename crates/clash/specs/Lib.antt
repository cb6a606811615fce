pub mod Closures
pub mod Minimal
pub mod Walks
