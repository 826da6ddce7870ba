pub mod Refusals
pub mod Faults
pub mod Floats
pub mod Samples
pub mod Readings
pub mod Members
pub mod Makes
