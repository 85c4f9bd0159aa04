pub mod Packets
pub mod Saving
pub mod Examples
