pub mod BitSteps
pub mod OctetSteps
pub mod SignBits
pub mod Steps
