-- Entry says what an entry of a directory is, Layout how entries follow one another in the pool.
pub mod Entry
pub mod Layout
