pub mod EachChunkOnce
pub mod PlainSearch
pub mod Entering
pub mod OrderedPass
pub mod Examples
