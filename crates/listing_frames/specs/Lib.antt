-- Frames says what a listing answers and writes. In internal/ is what only contracts of private functions cite.
pub mod Frames
pub mod internal
