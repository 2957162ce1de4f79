pub mod Annotating
mod Dating
mod Showing
