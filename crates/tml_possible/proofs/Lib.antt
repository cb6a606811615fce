pub mod Bases
pub mod Lying
pub mod Placing
pub mod FalseOrders
pub mod Ranks
pub mod Lists
pub mod Growing
pub mod Least
pub mod Deciding
pub mod OneList
mod EightOrders
