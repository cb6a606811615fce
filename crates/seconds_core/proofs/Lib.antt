pub mod Named
pub mod InRange
pub mod Kept
pub mod Ordered
pub mod Sums
pub mod Relations
