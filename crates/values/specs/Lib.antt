-- How the values of a text stand in its table.
pub mod Children
pub mod Held
