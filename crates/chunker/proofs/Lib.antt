-- theorems/ has what docs/PROMISES.md cites. laws/ has what proofs cite: NextChunk for whoever cuts a job chunk by chunk,
-- Opening and ground/Soundness for the tests of windows and scanners, Appending and CutPlaces for chunks and places of cuts.
pub mod laws
pub mod theorems
