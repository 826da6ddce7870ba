pub mod Floors
pub mod Products
pub mod Limits
pub mod Scaling
pub mod Readings
pub mod Places
pub mod Chunks
