pub mod Lists
pub mod Histories
pub mod Agrees
pub mod Knowing
pub mod Keeps
pub mod Takings
pub mod Turns
