pub mod Horner
pub mod Windows
pub mod GroupOrder
pub mod GroupBytes
pub mod GroupFill
pub mod Cutting
