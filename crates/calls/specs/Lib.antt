pub mod Answers
pub mod Calls
pub mod States
pub mod Runs
pub mod Promises
pub mod Laws
pub mod Outcomes
