pub mod Chosen
pub mod Current
pub mod Endings
pub mod Listed
pub mod RunNumbers
pub mod Texts
pub mod Values
pub mod Works
