pub mod Comparing
pub mod Passing
