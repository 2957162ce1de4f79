pub mod Giving
pub mod HeardCommand
pub mod LookGives
pub mod Unlinked
