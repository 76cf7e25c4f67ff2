pub mod HeardOctets
pub mod HeardBits
pub mod Looks
pub mod Recording
pub mod Recordings
pub mod Meaning
