pub mod Fractions
pub mod Rounding
pub mod First
pub mod Lines
pub mod Averages
pub mod Wholes
pub mod Limits
