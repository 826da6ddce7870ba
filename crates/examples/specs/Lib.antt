pub mod Ties
pub mod Worked
