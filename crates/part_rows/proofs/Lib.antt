mod Choosing
mod Cleanness
mod Encoding
mod Missing
pub mod Naming
pub mod Once
pub mod Walking
mod WantedKeys
mod Worked
