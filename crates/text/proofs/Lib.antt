mod Decimals
mod Hexes
mod Lines
mod Printing
pub mod Steps
