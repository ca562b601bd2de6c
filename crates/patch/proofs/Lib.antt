-- What the merge patch's code does, said of plain lists.
pub mod Sides
pub mod Emitting
pub mod Standing
pub mod Seeing
pub mod FirstBytes
pub mod Steps
pub mod Chaining
pub mod Taking
pub mod Opening
pub mod Going
pub mod Walking
pub mod Lengths
pub mod Answering
