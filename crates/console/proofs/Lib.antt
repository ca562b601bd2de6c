-- Of the programs: one line fits, and which.
pub mod Lines
pub mod Rooms
pub mod Answers
pub mod Examples
