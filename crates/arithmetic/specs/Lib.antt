pub mod Modulus
pub mod Quotient
pub mod Power
pub mod EvenDigits
pub mod Number
