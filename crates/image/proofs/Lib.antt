pub mod Answered
pub mod Counting
pub mod Law
pub mod Ranges
pub mod Steps
