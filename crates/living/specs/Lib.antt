pub mod Commands
pub mod Standings
