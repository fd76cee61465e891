pub mod Serving
pub mod Screening
pub mod Law
pub mod Applying
