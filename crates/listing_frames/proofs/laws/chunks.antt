pub mod Walking
pub mod NewChunks
