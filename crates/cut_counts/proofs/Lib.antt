-- laws/Counting has the counts of a job under way, chunk by chunk; theorems/ what is promised of them.
pub mod laws
pub mod theorems
