pub mod Comparing
pub mod Standing
pub mod Searching
