-- The laws that the functions' proofs cite, and what other crates may rely on.
pub mod Order
pub mod Reading
pub mod Runs
pub mod Spelling
