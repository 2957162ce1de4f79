pub mod Folding
mod Names
pub mod Walking
mod Whole
