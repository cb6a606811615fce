pub mod Ask
pub mod Drill
pub mod Relations
pub mod LineParts
pub mod Solve
