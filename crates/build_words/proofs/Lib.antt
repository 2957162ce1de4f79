mod Places
pub mod Said
