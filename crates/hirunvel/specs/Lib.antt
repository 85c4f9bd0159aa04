-- What each function for C answers and writes, over numbers: a file for each crate below. In internal/ is what only
-- contracts of this crate cite.
pub mod Scanning
pub mod Storing
pub mod Rebuilding
pub mod internal
