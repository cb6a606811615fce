pub mod Seconds
pub mod Sets
pub mod KnownParts
pub mod Valid
pub mod Answers
pub mod Printed
