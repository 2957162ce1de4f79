pub mod Arranging
pub mod Moved
pub mod Order
pub mod Places
pub mod Rearranged
