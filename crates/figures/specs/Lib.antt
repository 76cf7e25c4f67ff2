pub mod Table
pub mod Orders
pub mod Recorded
pub mod Tallies
