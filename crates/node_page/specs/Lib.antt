pub mod Pages
pub mod Nodes
pub mod Stems
pub mod Reading
pub mod Found
