pub mod Decoded
pub mod Encoded
pub mod Fields
pub mod Listed
pub mod Lossless
pub mod Opcodes
pub mod Ranges
pub mod Valid
