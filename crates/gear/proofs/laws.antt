pub mod Sums
pub mod Stretches
pub mod After
