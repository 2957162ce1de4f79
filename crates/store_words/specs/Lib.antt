pub mod StoreWords
pub mod Table
pub mod Values
