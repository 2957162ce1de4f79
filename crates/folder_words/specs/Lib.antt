pub mod BadNames
pub mod MarkWords
pub mod PickWords
pub mod RefileFolders
pub mod RefileWords
pub mod RmmWords
pub mod Tables
pub mod TellWords
