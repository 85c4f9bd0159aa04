pub mod chunks
pub mod Listed
