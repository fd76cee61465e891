pub mod Plans
pub mod Steps
pub mod Rules
pub mod Counting
pub mod Lives
pub mod Witness
