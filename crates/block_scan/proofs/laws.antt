pub mod Middle
pub mod PartEnds
pub mod windows
