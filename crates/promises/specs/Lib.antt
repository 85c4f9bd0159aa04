-- History is a list of events from a fresh store; FirstAppearances, Saving, GivesBack, NumbersStay, IndexStays, Fields and Promise are what is promised of it.
-- Calls and FeedCalls are a C program's calls one after another, and what is promised of them.
pub mod History
pub mod FirstAppearances
pub mod Saving
pub mod GivesBack
pub mod NumbersStay
pub mod IndexStays
pub mod Fields
pub mod Promise
pub mod Calls
pub mod FeedCalls
