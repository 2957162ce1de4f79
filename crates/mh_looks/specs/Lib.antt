pub mod Asked
pub mod Lines
pub mod Outcomes
pub mod Scan
pub mod ScanJob
pub mod ScanPledge
pub mod UnseenIn
pub mod Values
