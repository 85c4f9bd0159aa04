pub mod QuoteAndTake
pub mod ChunkCount
pub mod Room
pub mod LeftAlone
pub mod Saving
pub mod CutCounts
