pub mod Files
pub mod Forwards
pub mod Found
pub mod Messages
pub mod NotGiven
pub mod Shown
pub mod Values
pub mod Wants
