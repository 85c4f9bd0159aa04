-- theorems/ has what a look tells; laws/Told says when an answer is accepted, and laws/scanning leads from the chunker's answers to the definitions over numbers.
pub mod laws
pub mod theorems
