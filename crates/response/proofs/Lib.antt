pub mod Services
pub mod Trials
pub mod VariableRule
pub mod WorkedWeights
pub mod Alike
