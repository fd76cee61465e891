pub mod Views
pub mod Moments
pub mod Isolation
pub mod Witness
