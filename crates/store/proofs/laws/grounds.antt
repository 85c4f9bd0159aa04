pub mod Fitting
pub mod Passed
pub mod Filled
