-- laws/Moves has what a move rests on: everything else about scanners goes through it. laws/run has the laws of src/run.rt.
pub mod laws
