pub mod Events
pub mod Untested
pub mod Appearances
pub mod Fields
