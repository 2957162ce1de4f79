pub mod BuildWords
pub mod Sorts
