pub mod layout
