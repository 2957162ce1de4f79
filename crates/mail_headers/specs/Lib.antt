pub mod Fields
pub mod Lines
pub mod Message
pub mod Unfolding
pub mod View
pub mod Walk
pub mod Whole
