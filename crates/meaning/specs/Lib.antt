-- What a text means, and what is done with meanings.
pub mod Meaning
pub mod Order
pub mod Canonical
pub mod Pointer
pub mod Lookup
pub mod Merge
