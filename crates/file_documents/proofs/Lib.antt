pub mod SetDone
pub mod BatchItems
pub mod BatchPut
pub mod BatchDone
