mod Picks
mod Least
mod Steps
mod Told
mod Crashes
