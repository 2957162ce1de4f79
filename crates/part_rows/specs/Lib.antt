pub mod Choices
pub mod Chosen
pub mod FileNames
pub mod PartViews
pub mod PathTexts
pub mod Rows
