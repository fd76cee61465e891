pub mod Forms
pub mod Places
pub mod Reading
pub mod Round
pub mod Writing
