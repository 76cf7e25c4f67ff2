pub mod Checksums
pub mod Format
pub mod Sealing
