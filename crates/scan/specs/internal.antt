pub mod Sound
pub mod Run
pub mod Order
