pub mod grounds
pub mod Chunks
pub mod Surveyed
pub mod Outcomes
pub mod Asked
pub mod Takes
pub mod Refusals
