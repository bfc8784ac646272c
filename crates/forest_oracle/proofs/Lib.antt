pub mod Commits
pub mod Mapped
pub mod Places
pub mod AtTurn
