pub mod Sameness
pub mod Numbering
pub mod Growth
pub mod Members
pub mod Additions
