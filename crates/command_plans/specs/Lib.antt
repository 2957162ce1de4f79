pub mod Clock
pub mod Command
pub mod CommandNames
pub mod Incorporating
pub mod LeavesInput
pub mod Looking
pub mod Profile
