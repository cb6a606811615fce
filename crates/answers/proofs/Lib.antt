pub mod Answering
pub mod Answered
pub mod Contents
pub mod Refusals
pub mod NamedIntervals
pub mod Reporting
