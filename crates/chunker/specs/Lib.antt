-- Method is the published method and OneCondition the same in one condition, Chunks the chunks that are computed, Peaks the maximum
-- points of those that cuts end; Scanner and Answers say what each function answers.
pub mod Bytes
pub mod Scanner
pub mod Answers
pub mod Chunks
pub mod Method
pub mod OneCondition
pub mod Peaks
pub mod Splitting
pub mod KeptMaximum
