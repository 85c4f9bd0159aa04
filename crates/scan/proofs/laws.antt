pub mod Moves
pub mod Soundness
pub mod run
