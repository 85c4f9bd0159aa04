-- laws/contents has the laws of the store as a list of chunks, laws/grounds those of the grounds test by test,
-- laws/Memory and laws/ChunkOfNumber lead from pool and directory to the list of chunks.
pub mod laws
