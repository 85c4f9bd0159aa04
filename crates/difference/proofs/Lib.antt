-- theorems/NoDifference: no difference is told exactly where the lists are the same. laws/Comparing serves the code.
pub mod laws
pub mod theorems
