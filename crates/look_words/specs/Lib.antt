pub mod Columns
pub mod IncWords
pub mod LookWords
pub mod ScanWords
pub mod Tables
