pub mod Expression
pub mod Ring
pub mod Lists
pub mod Counts
pub mod Search
pub mod Loop
pub mod Insert
