pub mod Tests
pub mod Answered
pub mod Coefficients
pub mod Ready
pub mod HouseTable
pub mod Acceptance
pub mod Theorems
pub mod Unique
