pub mod Message
pub mod Parts
pub mod Held
