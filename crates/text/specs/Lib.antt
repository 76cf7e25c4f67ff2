pub mod Figures
pub mod Reads
pub mod Texts
pub mod Words
