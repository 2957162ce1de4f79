pub mod Characters
pub mod Counts
pub mod Entries
pub mod Folders
pub mod Memory
pub mod Names
pub mod Numbers
pub mod Streams
