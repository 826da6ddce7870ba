pub mod Settlements
pub mod Texts
pub mod Reports
