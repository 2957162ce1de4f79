pub mod Limits
pub mod NotedGiven
pub mod NotedPledged
pub mod PutAtGiven
pub mod Turns
