pub mod Checks
pub mod Orders
pub mod Faults
pub mod Timelines
pub mod Steps
