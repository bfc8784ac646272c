pub mod Commits
pub mod Stands
pub mod Changes
pub mod NewStore
