pub mod Playing
pub mod Sendings
pub mod Words
