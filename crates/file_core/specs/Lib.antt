pub mod Recorded
pub mod Stands
pub mod Reads
pub mod Layout
pub mod Updates
