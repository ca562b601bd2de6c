-- What is written for the merge of two values, each in a table of its own.
pub mod Emits
pub mod Side
pub mod Stands
pub mod Turns
pub mod Walks
