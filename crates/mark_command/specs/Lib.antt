pub mod Lines
pub mod Mark
pub mod Marking
pub mod Values
