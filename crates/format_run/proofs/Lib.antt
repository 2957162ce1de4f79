mod FirstFields
pub mod FormatLines
pub mod HeldStates
pub mod KeptWidths
mod LazyStates
pub mod RunCode
pub mod Searching
pub mod TextCalls
