mod Added
mod Again
mod Fronts
mod Read
