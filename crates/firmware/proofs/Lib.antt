pub mod Room
pub mod Copying
pub mod Refusing
pub mod Answers
pub mod Listing
pub mod Texts
