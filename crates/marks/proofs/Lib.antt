-- laws/Positions says where a job's chunks start, laws/Marking what their marks are; laws/Appearing, laws/Numbering and
-- laws/Storing say what marks tell of them, laws/Keeping what a survey keeps of its own. laws/Sizes, laws/Chains and
-- laws/Appearances are about lists alone; laws/Finding, laws/Following and laws/Settling serve the functions.
pub mod laws
