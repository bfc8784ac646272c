pub mod Committing
pub mod Ordered
