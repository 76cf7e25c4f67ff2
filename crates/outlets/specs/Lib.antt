pub mod Placement
pub mod Bottoms
pub mod Frames
pub mod PlacementLaws
pub mod Placements
pub mod OverMemory
