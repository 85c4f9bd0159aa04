-- Grounds has the grounds before the first chunk; Quote and Take say what the two operations answer and leave.
pub mod Grounds
pub mod Quote
pub mod Take
pub mod internal
