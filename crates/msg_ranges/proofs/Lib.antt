pub mod Answering
mod Cutting
mod Digits
mod Forming
mod Parts
pub mod Rising
pub mod Selected
mod Selections
mod SetLists
mod Spans
mod Sums
mod Walking
pub mod Within
