-- What canonical text is written, and where.
pub mod Puts
pub mod Scalars
pub mod Normals
pub mod Strings
pub mod Numerals
