pub mod Pack
pub mod PackAlone
pub mod PackAnswers
pub mod PackDone
pub mod PackOutcome
pub mod PackPledge
pub mod Places
