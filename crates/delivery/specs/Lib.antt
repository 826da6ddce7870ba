pub mod Limits
pub mod Areas
pub mod Filling
pub mod Footings
pub mod Checking
