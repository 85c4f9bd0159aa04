-- Storing says how new chunks go into pool, directory and index. In internal/ is what only contracts of this layer cite.
pub mod Storing
pub mod internal
