pub mod ChunkCount
