pub mod Checks
pub mod Entries
pub mod Samples
pub mod Targets
pub mod Orders
pub mod Ends
pub mod Faults
pub mod Timelines
