pub mod Largest
pub mod Key
