pub mod Doing
pub mod Trees
