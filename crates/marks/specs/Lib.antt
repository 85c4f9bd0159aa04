-- Marks says what the places of a recipe say while a quote is under way. In internal/ is what only contracts of this layer cite.
pub mod Marks
pub mod internal
