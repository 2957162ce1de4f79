pub mod BareWorlds
pub mod Clauses
pub mod Texts
pub mod Told
