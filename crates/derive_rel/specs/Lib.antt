pub mod Entailed
pub mod Pairs
pub mod Pushing
