-- laws/layout/Entries has what callers cite of a layout, laws/layout/Testing serves the loop that tests it.
pub mod laws
