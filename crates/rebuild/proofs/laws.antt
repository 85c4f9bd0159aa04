pub mod Recipes
pub mod LocatedChunks
pub mod Parts
pub mod ChunksWritten
pub mod grounds
