pub mod Layout
pub mod Headers
