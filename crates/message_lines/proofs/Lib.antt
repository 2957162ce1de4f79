pub mod FormatFinds
pub mod Texts
