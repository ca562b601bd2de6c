-- What is written for the values of a table.
pub mod Containers
pub mod Writes
pub mod Entering
pub mod Walks
pub mod Pending
pub mod Room
