pub mod Copied
pub mod Copying
pub mod Moving
pub mod RefiledAlone
pub mod Refiling
