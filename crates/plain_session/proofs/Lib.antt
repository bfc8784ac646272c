mod Numbers
mod Calls
mod Lanes
mod Turns
mod Rows
