pub mod Peaks
pub mod Advance
