pub mod FirstOf
pub mod Judged
pub mod Phases
