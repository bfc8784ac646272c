pub mod Numbers
pub mod Profile
pub mod Reading
pub mod Settings
