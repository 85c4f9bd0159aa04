-- laws/Comparing and laws/Standing have the laws of a chunk's bytes at a place, laws/Searching those of a search under way.
pub mod laws
