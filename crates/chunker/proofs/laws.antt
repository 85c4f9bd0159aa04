pub mod ground
pub mod Appending
pub mod NextChunk
pub mod Opening
pub mod CutPlaces
pub mod Tracking
pub mod FirstCut
pub mod KeptMaximum
