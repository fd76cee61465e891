pub mod Model
pub mod Rules
pub mod Join
pub mod Frames
pub mod Laws
