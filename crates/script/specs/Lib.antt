pub mod Verbs
pub mod Figures
pub mod Lines
