pub mod OneChunk
pub mod Surveying
pub mod Turn
