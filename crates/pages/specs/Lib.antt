pub mod Entries
pub mod Words
pub mod Matching
pub mod Translating
pub mod Tables
pub mod Known
