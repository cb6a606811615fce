pub mod First
pub mod FirstOrNone
pub mod Numbered
