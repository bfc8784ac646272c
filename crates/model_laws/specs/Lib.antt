pub mod Answered
pub mod Commits
pub mod Copies
pub mod Laws
pub mod Reads
pub mod Refusals
pub mod Tables
pub mod Writes
