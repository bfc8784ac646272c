pub mod Index
pub mod Live
pub mod Merged
pub mod Numbers
pub mod Places
pub mod Rows
