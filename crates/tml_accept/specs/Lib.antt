pub mod Acceptance
pub mod Taking
pub mod Refusals
