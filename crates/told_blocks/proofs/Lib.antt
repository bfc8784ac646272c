mod Added
mod Read
