pub mod Outcomes
pub mod Sending
pub mod Runs
pub mod Law
