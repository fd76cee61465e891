pub mod Flags
pub mod Laws
