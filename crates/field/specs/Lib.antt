pub mod Limits
pub mod Refusal
pub mod Accepted
pub mod House
pub mod Calls
pub mod Answers
