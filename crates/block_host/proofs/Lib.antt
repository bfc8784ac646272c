pub mod Moments
mod Padding
mod Room
mod Front
pub mod Back
mod Unsealed
mod InTurn
mod Alone
