pub mod Hexadecimal
pub mod Pieces
pub mod Lengths
pub mod Digits
