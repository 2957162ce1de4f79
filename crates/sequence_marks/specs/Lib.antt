pub mod KeepsSequences
pub mod SequenceMarks
pub mod KeepsSequencesOf
