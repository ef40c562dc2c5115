pub mod Xor
pub mod Bit
pub mod Fold
pub mod Times
pub mod Remainder
pub mod Product
pub mod Block
pub mod Factor
