pub mod Exact
pub mod Extensions
pub mod Masks
pub mod Products
pub mod Quotients
pub mod Rotations
