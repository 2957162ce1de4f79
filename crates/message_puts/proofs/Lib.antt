pub mod FirstPuts
pub mod PutGiven
pub mod PutPledged
pub mod StoredGiven
pub mod StoredPledged
