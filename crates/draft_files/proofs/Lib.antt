pub mod Causes
pub mod Limits
pub mod Names
pub mod Pieces
