pub mod ListAnswers
pub mod ListOutcome
pub mod ListPledge
pub mod Listing
pub mod Values
