pub mod Noted
pub mod NotedAlone
pub mod Noting
