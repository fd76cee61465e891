pub mod Models
pub mod Keeping
pub mod Values
pub mod Joining
