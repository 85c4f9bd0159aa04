-- laws/Adding says what storing adds to a store, laws/Indexing what it adds to the index, laws/LeftAlone what it leaves; the others
-- serve these and the code.
pub mod laws
