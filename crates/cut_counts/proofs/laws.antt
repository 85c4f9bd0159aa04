pub mod Kinds
pub mod Counting
