pub mod Lookups
pub mod Finds
pub mod Puts
pub mod Growing
pub mod Keeping
