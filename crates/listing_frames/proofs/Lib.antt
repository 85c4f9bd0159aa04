-- theorems/HandWorked has listings that the paper lays down. laws/Listed leads from a quote to the listing; laws/chunks serves it
-- and the loop that writes.
pub mod laws
pub mod theorems
