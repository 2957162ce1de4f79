pub mod Folder
pub mod Summary
pub mod Values
