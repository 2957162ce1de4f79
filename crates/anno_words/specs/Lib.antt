pub mod AnnoWords
pub mod Table
pub mod WrongValues
