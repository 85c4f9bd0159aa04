pub mod NoDifference
