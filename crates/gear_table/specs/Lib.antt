-- Line is one line of the program's output.
pub mod Line
