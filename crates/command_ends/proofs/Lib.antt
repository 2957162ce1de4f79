pub mod Begins
pub mod BegunEnding
pub mod BegunParts
pub mod BuildEnding
pub mod Ending
pub mod IncEnding
pub mod RefileEnding
pub mod WordEnding
