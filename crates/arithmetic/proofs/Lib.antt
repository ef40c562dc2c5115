pub mod Quotient
pub mod Power
pub mod EvenDigits
pub mod Root
pub mod Number
pub mod Steps
