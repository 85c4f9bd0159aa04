-- theorems/ has what is promised of the index; laws/ what proofs cite: Trails and Accepting on the test along the chains,
-- Searching on the search, Entering on entered chunks, Ordering on the pass in order, Grounds on the grounds; laws/chains and
-- laws/order on the loops.
pub mod laws
pub mod theorems
