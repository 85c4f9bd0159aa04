pub mod HandWorked
