-- What a text is, from its bytes to its records.
pub mod Bytes
pub mod Decimal
pub mod Node
pub mod Ceilings
pub mod Strings
pub mod Numbers
pub mod Grammar
pub mod Verdict
pub mod Table
