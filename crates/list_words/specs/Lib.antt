pub mod ListWords
pub mod Parts
pub mod Table
