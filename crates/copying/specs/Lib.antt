-- What a write to memory leaves. In internal/ is what only contracts of this layer cite.
pub mod Written
pub mod internal
