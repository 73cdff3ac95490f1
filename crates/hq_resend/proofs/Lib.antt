mod Places
mod Sizes
mod Standing
