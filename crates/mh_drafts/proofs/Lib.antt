mod Alone
mod Attributing
mod Commenting
mod Drafting
mod Filing
mod Heading
pub mod Joining
mod Reading
mod Signing
mod Wording
