pub mod FilesFound
pub mod Finding
pub mod MessagesFound
pub mod NotGiven
pub mod Shown
mod Turns
pub mod WantsFound
