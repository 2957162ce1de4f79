pub mod NameRows
