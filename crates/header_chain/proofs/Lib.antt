mod Read
mod Once
mod Stays
