pub mod Decimals
pub mod EntryKinds
pub mod EntryNames
pub mod NumberTests
pub mod Prefixes
mod RunDigits
mod Texts
