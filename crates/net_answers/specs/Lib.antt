pub mod Nets
pub mod Showing
