pub mod Snapshot
pub mod Ready
pub mod Begun
pub mod Surveyed
