-- laws/Stores has the length of a frame, and what bytes leave that are stored in a row.
pub mod laws
