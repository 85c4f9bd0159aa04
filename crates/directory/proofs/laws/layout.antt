pub mod Entries
pub mod Testing
