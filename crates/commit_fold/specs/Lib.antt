pub mod Counting
pub mod Folding
pub mod Pledged
