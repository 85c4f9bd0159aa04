-- Walk is what a job's chunks come to against the store as a list of chunks. In internal/ is what only contracts cite.
pub mod Walk
pub mod internal
