-- Difference says where two lists of chunks differ.
pub mod Difference
