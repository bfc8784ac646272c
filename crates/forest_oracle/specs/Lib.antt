pub mod Memory
pub mod AtTurn
