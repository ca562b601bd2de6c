-- What the reader's parts promise.
pub mod Answers
pub mod Loop
pub mod Repeats
pub mod Stacks
pub mod States
pub mod Tokens
