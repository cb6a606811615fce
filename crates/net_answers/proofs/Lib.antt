pub mod Answering
pub mod ClashProofs
pub mod FewCites
pub mod LineSizes
pub mod Nets
pub mod Sizes
pub mod StepNumbers
