-- Gear is the table by its rule, the sum of bytes by it, and the chain that a sum chooses. In internal/ is what only contracts cite.
pub mod Gear
pub mod internal
