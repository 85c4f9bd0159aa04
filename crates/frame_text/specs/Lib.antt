-- The text of one frame.
pub mod Frame
