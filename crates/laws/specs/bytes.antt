-- Bytes and records: what is written is read back, and what is accepted has one spelling.
pub mod Kinds
pub mod RecordLaws
pub mod Walks
pub mod ReadAccepts
pub mod ReadSpells
pub mod BatchReads
pub mod SpellingLength
