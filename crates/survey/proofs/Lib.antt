-- laws/Walking has what a walk over chunks comes to; laws/Steps and laws/chunks serve the functions.
pub mod laws
