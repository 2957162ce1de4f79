pub mod HeldPairs
pub mod Highest
pub mod Settle
pub mod SettledAlone
