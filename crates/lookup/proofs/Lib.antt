-- The laws that the functions' proofs cite.
pub mod Reading
pub mod Indices
pub mod Ends
pub mod Faults
pub mod Finding
pub mod Indexing
pub mod Shapes
pub mod Walking
pub mod Parting
