pub mod RefileFolders
pub mod SaidMark
pub mod SaidRefileFolders
pub mod SaidSound
