pub mod Answers
pub mod Outcomes
pub mod Plans
pub mod Pledge
pub mod Tasks
pub mod ToldAlone
