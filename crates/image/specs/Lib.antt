pub mod Format
pub mod Readers
pub mod Reading
pub mod Reasons
pub mod Records
pub mod Values
