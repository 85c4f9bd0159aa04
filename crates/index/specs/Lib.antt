-- Index says what an index is, which chunks its chains must meet, and how a chunk is entered; Along has the test by steps along the
-- chains and the search along one, Ordered the quicker pass; Grounds has the grounds 11 and 12.
pub mod Index
pub mod Along
pub mod Ordered
pub mod Grounds
