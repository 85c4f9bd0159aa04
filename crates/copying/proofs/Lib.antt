-- laws/Written has the laws of a write; laws/Stretches serves the loop over blocks.
pub mod laws
