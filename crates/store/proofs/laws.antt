pub mod contents
pub mod grounds
pub mod Memory
pub mod Stretches
pub mod ChunkOfNumber
