pub mod Steps
pub mod Walking
pub mod Room
pub mod chunks
