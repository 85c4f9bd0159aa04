pub mod NoGround
pub mod Grounds
pub mod Tested
