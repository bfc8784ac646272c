pub mod Held
pub mod Moment
pub mod Lookup
pub mod Causes
pub mod Records
pub mod Growing
pub mod Keeping
