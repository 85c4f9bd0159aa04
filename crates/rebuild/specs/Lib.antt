-- Rebuilding says what a rebuilding answers and leaves. In internal/ is what only contracts of private functions cite.
pub mod Rebuilding
pub mod internal
