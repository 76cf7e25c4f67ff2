pub mod Lawfully
pub mod Padding
pub mod Playing
pub mod RunSteps
