-- theorems/QuoteAndTake says that a take answers its quote. laws/Asked and laws/Takes have what a quote tells and a take adds, by
-- which the store as a list of chunks is all that callers need; laws/Surveyed, laws/Outcomes, laws/Chunks and laws/grounds serve
-- these and the functions.
pub mod laws
pub mod theorems
