pub mod Built
pub mod Seen
pub mod Playing
pub mod Script
pub mod Play
pub mod Progress
pub mod Refused
