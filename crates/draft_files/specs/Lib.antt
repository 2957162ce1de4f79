pub mod DraftNames
pub mod Drafts
pub mod Hearing
pub mod Limits
pub mod Replacing
