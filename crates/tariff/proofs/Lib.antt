-- theorems/ has what docs/PROMISES.md cites; laws/Saving serves the function `saving` and the theorem on the least saving.
pub mod laws
pub mod theorems
