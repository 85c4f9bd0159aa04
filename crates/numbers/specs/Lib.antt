-- Scanning and Storing say which numbers stand for a scanner, a head and an answer.
pub mod Scanning
pub mod Storing
