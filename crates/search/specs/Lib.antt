-- Only contracts of this layer cite what is here.
pub mod internal
