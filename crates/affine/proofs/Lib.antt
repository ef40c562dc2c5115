pub mod Tests
pub mod Terms
pub mod Matrix
pub mod Found
mod Answered
pub mod Listing
pub mod Theorems
pub mod Bounds
pub mod Squares
pub mod Unique
