pub mod Faults
pub mod Held
pub mod Kept
pub mod Memory
pub mod Pending
pub mod Since
pub mod Formatted
