pub mod Keys
pub mod SortWords
pub mod Table
