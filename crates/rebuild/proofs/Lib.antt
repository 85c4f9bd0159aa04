-- laws/grounds/RebuildGround has the grounds of a rebuilding, test by test; the other laws serve the loops that count and write.
pub mod laws
