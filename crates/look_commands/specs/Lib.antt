pub mod Asked
pub mod Looks
pub mod Results
