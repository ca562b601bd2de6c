-- Each entry has one outcome, and the demands in terms of the entries.
pub mod Readings
pub mod Outcomes
pub mod Promises
pub mod Slices
pub mod Examples
pub mod Tables
pub mod Demands
