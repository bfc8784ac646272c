pub mod Noting
pub mod Rule
pub mod Passes
pub mod Counting
pub mod Turning
