mod Appending
mod Cutting
mod Decimals
mod Naming
