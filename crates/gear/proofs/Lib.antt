-- theorems/ has what is promised of the table and the sum; laws/ what proofs cite.
pub mod laws
pub mod theorems
