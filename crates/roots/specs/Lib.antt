pub mod Limits
pub mod Calls
pub mod Answers
pub mod Equation
pub mod Roots
pub mod ShortList
pub mod Sorting
