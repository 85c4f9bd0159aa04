-- laws/Grounds and laws/Tested have what callers cite of a list of grounds, laws/NoGround of none.
pub mod laws
