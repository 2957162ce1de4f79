pub mod CopyPledged
pub mod MoveAsks
pub mod MoveCopied
pub mod MoveGiven
pub mod MovePledged
pub mod MovingKinds
pub mod RefilePledged
pub mod RefiledGiven
pub mod StayPledged
mod Turns
