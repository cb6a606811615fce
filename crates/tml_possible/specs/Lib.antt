pub mod Possible
pub mod Sets
pub mod Examples
pub mod Trying
pub mod OrderSets
