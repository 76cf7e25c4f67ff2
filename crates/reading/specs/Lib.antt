pub mod Half
pub mod Meaning
pub mod Gather
