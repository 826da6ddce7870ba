pub mod Running
pub mod Once
pub mod Promising
pub mod Refusals
