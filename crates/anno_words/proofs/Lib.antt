pub mod Said
mod Values
