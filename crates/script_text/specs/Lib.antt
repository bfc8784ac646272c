pub mod Words
pub mod Grammar
pub mod Replies
pub mod Reading
