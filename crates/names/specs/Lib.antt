-- What names mean and how they are ordered.
pub mod Order
pub mod Units
pub mod Steps
