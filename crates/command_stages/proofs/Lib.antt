pub mod Adding
pub mod Causes
pub mod Counting
pub mod FolderLines
pub mod Listing
pub mod Values
