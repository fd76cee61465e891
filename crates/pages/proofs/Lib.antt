pub mod Sizes
pub mod Known
pub mod Searching
