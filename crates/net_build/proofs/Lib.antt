pub mod Pairing
pub mod DocumentNets
pub mod OneNet
pub mod EveryNet
pub mod Intervals
