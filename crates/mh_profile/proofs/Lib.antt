pub mod EntryLists
pub mod FieldEntries
pub mod FoldedLines
mod KeySets
mod KeyedEntries
pub mod Keys
mod LineByLine
pub mod OneLineValues
pub mod PrintedBack
pub mod ValidEntries
