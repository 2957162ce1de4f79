pub mod Turning
pub mod Cases
pub mod Telling
pub mod Folding
pub mod Worked
pub mod Pledged
