pub mod Largest
pub mod Windows
