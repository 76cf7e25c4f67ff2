pub mod Reception
pub mod Layer
pub mod Lines
pub mod Piles
pub mod Bits
pub mod Outlets
