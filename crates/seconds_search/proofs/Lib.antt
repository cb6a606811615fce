pub mod EdgeLaws
pub mod Relaxing
pub mod Falling
pub mod Trails
pub mod Settling
pub mod Counted
pub mod EveryNet
