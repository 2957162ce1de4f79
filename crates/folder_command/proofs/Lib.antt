pub mod FolderAlone
pub mod FolderPledged
pub mod Orderly
pub mod WordsGiven
