pub mod Dates
pub mod Order
pub mod Texts
