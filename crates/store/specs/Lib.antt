-- Contents is the store as a list of chunks; Memory says which chunks pool and directory hold. Opening, Grounds and Looking say
-- what each function answers. In internal/ is what only contracts of layers cite.
pub mod Limits
pub mod Contents
pub mod Memory
pub mod Opening
pub mod Grounds
pub mod Looking
pub mod internal
