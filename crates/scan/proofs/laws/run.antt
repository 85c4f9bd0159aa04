pub mod Scanning
pub mod Underway
