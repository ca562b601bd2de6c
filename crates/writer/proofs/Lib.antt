-- What the writer's code does, said of plain lists.
pub mod Naming
pub mod Bounds
pub mod Owning
pub mod Weighing
pub mod Entries
pub mod Gathered
pub mod Spelled
pub mod Inner
pub mod Opening
pub mod Entered
pub mod Writing
pub mod Lengths
pub mod Answering
