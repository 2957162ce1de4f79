pub mod Base64
pub mod Hexadecimal
pub mod Pieces
pub mod QuotedPrintable
