pub mod OtherEntries
pub mod Sequences
pub mod Silence
pub mod SequencesOf
