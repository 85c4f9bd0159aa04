-- theorems/ has what is promised over lists of events and over calls from C, and examples; laws/Events has what an event does to the store as a
-- list of chunks, one clause for each event, and what follows at each place of a list; laws/Untested is by which examples are computed.
pub mod laws
pub mod theorems
