pub mod Looking
pub mod Putting
