-- What a scanner is and what bytes do to it: Scanner, Move, Scan. In internal/ is what the contracts of this layer alone cite.
pub mod Limits
pub mod Scanner
pub mod Move
pub mod Scan
pub mod internal
