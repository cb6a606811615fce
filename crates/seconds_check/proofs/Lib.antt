pub mod Links
pub mod Joined
pub mod Following
pub mod Verdicts
pub mod Deciding
pub mod Judged
