pub mod scanning
pub mod Told
