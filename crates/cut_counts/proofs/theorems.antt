pub mod AddUp
pub mod Examples
