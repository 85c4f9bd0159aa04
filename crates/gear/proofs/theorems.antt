pub mod Table
pub mod LastBytes
