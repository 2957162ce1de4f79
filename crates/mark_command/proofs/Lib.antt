pub mod Loops
pub mod MarkAlone
pub mod MarkPledged
pub mod Orderly
