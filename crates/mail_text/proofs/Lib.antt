pub mod Emptiness
mod Fronts
pub mod Lining
mod Marking
mod PartMarks
mod PartReading
mod PartShowing
mod PartsWorked
mod Quoted
pub mod Showing
mod Spelling
pub mod StrippedTwice
mod Wording
mod Words
