pub mod Finding
pub mod MessageText
pub mod Standings
