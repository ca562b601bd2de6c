-- The laws that the leaves' proofs cite.
pub mod Steps
pub mod Over
pub mod Spaces
pub mod WordLaws
pub mod StringLaws
pub mod Numerals
pub mod Counts
pub mod Zeros
pub mod Numbers
