pub mod EntriesIn
