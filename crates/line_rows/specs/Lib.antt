pub mod Columns
pub mod Decimals
pub mod Fields
