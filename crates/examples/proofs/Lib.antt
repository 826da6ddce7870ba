pub mod Halves
pub mod Joint
