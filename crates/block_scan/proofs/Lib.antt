-- laws/windows/Peaks has the steps of a whole window, laws/Middle and laws/PartEnds what is passed before and after them.
pub mod laws
