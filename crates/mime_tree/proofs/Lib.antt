mod Bodies
pub mod Cutting
pub mod Emptiness
mod Gapping
mod Growing
pub mod Lining
mod Marking
mod Naming
pub mod Quoting
mod Sections
pub mod Shortening
mod Stepping
