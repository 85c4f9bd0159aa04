pub mod Writing
pub mod Steps
pub mod Adding
pub mod Indexing
pub mod LeftAlone
pub mod Passing
