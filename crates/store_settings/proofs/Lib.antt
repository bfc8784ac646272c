pub mod Decimals
pub mod Exact
pub mod Keys
pub mod Looks
pub mod Prefixes
pub mod Texts
