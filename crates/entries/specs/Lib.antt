-- What each public entry promises.
pub mod Answer
pub mod Parts
pub mod Entries
