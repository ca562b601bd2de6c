-- What the leaves of a reader promise.
pub mod Refusals
pub mod Answers
pub mod Space
pub mod Words
pub mod Strings
pub mod Numerals
pub mod Eights
pub mod Numbers
