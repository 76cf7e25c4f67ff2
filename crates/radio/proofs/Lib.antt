pub mod Honesty
pub mod LowBits
pub mod States
pub mod Taking
