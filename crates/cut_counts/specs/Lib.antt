-- CutCounts has the three counts of a job's cuts. In internal/ is what only the contract of this layer cites.
pub mod CutCounts
pub mod internal
