pub mod Written
pub mod Stretches
