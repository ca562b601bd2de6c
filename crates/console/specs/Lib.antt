-- What the two programs write.
pub mod Programs
pub mod Parts
pub mod Counts
