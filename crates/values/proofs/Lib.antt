pub mod Stretches
pub mod Holding
pub mod Records
pub mod Kin
pub mod Linked
