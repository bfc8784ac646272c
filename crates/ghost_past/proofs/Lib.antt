mod Notes
mod Walks
