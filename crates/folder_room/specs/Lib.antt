pub mod Positions
pub mod Ways
pub mod Closing
pub mod Crashing
pub mod Played
pub mod Left
pub mod Parents
pub mod Seen
