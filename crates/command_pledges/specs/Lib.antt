pub mod CommandMarks
pub mod CommandPledge
