-- What a pointer's tokens are in its bytes, and what they name in a table.
pub mod Tokens
pub mod Reading
pub mod Steps
pub mod Found
