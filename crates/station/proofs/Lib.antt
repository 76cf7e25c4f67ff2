pub mod Collecting
pub mod Exactly
pub mod Judged
mod Multiples
pub mod ReadSteps
pub mod Spoilt
pub mod Sums
pub mod Worked
pub mod Written
