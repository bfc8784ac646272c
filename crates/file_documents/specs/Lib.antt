pub mod Setting
pub mod Writing
pub mod Deleting
pub mod Batching
pub mod BatchPuts
