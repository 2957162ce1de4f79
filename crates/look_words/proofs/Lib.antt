pub mod SaidSound
pub mod Widths
