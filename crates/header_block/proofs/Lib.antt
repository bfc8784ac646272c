mod HeaderBack
mod Places
mod ReadBack
mod Written
mod OneHeader
