pub mod Heirs
pub mod Bearers
pub mod Sound
pub mod Minding
pub mod Always
pub mod Apart
pub mod Pledging
