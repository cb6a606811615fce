pub mod Canonical
pub mod Writing
pub mod Taking
pub mod Same
pub mod Laws
