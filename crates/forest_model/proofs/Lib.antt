pub mod FiniteMaps
pub mod KeyOrder
